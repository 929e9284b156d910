pub mod FirstParts
pub mod LineNames
pub mod Printed
pub mod Replayed
pub mod Script
pub mod ScriptOrders
pub mod ScriptRoutes
pub mod code
