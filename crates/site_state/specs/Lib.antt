-- what public clauses say
pub mod Files
pub mod Listings
pub mod States
pub mod Changes
pub mod Named
pub mod Aliases
pub mod Values
pub mod Missing
pub mod Deploys
-- what the comparisons of values show of their equality
pub mod SameValues
-- what only private functions need: how a state is kept, and where a cell is in it
pub mod Items
pub mod LiveRange
pub mod AliasRange
pub mod FolderRange
-- that the files, and the aliases, of a site are side by side
pub mod SpanOfLive
pub mod SpanOfAliases
pub mod SpanOfFolder
