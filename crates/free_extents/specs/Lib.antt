pub mod FreeList
