mod ReadParts
mod LookBack
mod NotedParts
