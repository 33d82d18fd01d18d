-- `Level::spares` meets its contract. Assumes nothing.
use Rattle.separator.proofs.MarkingLaws.{marked_pair}
use Rattle.separator.proofs.SideLaws.{side_inside}
use Rattle.separator.proofs.SpareLaws.{none_out, none_in, spares_of}
use Rattle.separator.proofs.level.Level.spares.Goals as goal

pub settle-leaving-requires : goal.settle-leaving-requires
settle-leaving-requires c =
    let a = c.args.self.now in
    side_inside _ a.s (λ x y m e. (marked_pair 64 a.net.now.rows a.s a.parts.now x y m e).0) c.marks-some.ensures.0

pub settle-entering-requires : goal.settle-entering-requires
settle-entering-requires c =
    let a = c.args.self.now in
    side_inside _ a.s (λ x y m e. (marked_pair 64 a.net.now.rows a.s a.parts.now y x m e).1) c.marks-some.ensures.1

pub returns-in_err-out : goal.returns-in_err-out
returns-in_err-out c =
    let a = c.args.self.now in
    let net = a.net.now in
    let marks = c.marks-some.ensures in
    rw c.from_residual.ensures
    (none_out net.n net.rows net.most net.columned.clean a.s a.low a.count a.parts.now a.listed _ _ _ _ marks.0 marks.1 (c.in_err-out.ensures))

pub returns-in_err-into : goal.returns-in_err-into
returns-in_err-into c =
    let a = c.args.self.now in
    let net = a.net.now in
    let marks = c.marks-some.ensures in
    rw c.from_residual-in_err-into.ensures
    (none_in net.n net.rows net.most net.columned.clean a.s a.low a.count a.parts.now a.listed _ _ _ _ marks.0 marks.1 (c.in_err-into.ensures))

pub returns : goal.returns
returns c =
    let a = c.args.self.now in
    let net = a.net.now in
    let marks = c.marks-some.ensures in
    spares_of net.n net.rows net.most net.columned.clean a.s a.low a.count a.parts.now a.listed _ _ _ _ marks.0 marks.1 _ (c.in_ok-out.ensures) (c.in_ok-into.ensures)
