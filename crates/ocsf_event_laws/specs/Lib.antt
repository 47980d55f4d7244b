pub mod FilesAllow
pub mod FileLaws
