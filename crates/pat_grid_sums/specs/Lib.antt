pub mod Sets
pub mod Shapes
pub mod Systems
