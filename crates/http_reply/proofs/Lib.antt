mod ParserLemmas
mod ReadingLemmas
mod FeedLemmas
mod LineEndLemmas
mod HostLemmas
