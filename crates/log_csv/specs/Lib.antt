pub mod Records
pub mod Faults
pub mod ScriptText
pub mod LogText
pub mod PrintedLog
pub mod Reading
pub mod RecordsLeft
