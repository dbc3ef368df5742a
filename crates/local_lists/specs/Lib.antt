pub mod LocalLists
