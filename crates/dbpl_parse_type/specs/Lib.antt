pub mod NestedTypes
