mod Worked
mod Texts
mod Events
