mod Worked
mod Texts
mod Events
mod Turns
mod Sequences
