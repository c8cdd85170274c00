pub mod FolderFacts
