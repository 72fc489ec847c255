pub mod ClassCodes
pub mod Rule
pub mod Order
pub mod Ranges
pub mod ScanState
pub mod BridgeCount
