-- Laws on plain numbers and functions, which the functions' proofs cite.
pub mod PutLaws
pub mod PathLaws
pub mod SearchLaws
pub mod SpareLaws
pub mod OrbitLaws
pub mod HallLaws
