pub mod CallRows
