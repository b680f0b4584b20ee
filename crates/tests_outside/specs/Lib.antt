pub mod NoSite
