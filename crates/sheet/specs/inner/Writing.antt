-- The record that the code's fields stand for. Only inner contracts cite it.
use Rattle.std.proofs.Math.Option.{none, some}
use Rattle.sheet.specs.declared.writing.Fields.{Fields}
use Rattle.sheet.specs.declared.writing.Fields.TheVariants as fields
use Rattle.sheet.specs.Layout.{Entry, free}

abbrev pub said : Fields → Entry
said fields.Free = free
said (fields.Fixed k) = record { next = none; prev = none; fixed = some k }
said (fields.Next w) = record { next = some w; prev = none; fixed = none }
