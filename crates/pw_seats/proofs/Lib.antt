mod Popped
mod DeskPopped
