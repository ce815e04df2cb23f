mod HeldMemory
mod LentTree
mod MapMemory
mod NewEntry
mod Renamed
mod Rows
mod SameInOrder
mod Values
