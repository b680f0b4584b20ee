mod Ascending
mod Lines
mod Maps
mod Ones
mod Leaving
mod Removals
mod Rises
