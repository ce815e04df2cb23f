mod Same
mod NewEntry
mod LentOn
mod Rows
mod Values
mod Drains
mod HeldMemory
