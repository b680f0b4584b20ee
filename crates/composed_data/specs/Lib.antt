pub mod SiteData
pub mod Named
