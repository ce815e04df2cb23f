mod Handles
mod LoggedHandles
