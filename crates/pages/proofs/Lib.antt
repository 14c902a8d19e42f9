pub mod NotedSearch
pub mod Took
