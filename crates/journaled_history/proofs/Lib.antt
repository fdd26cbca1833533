mod InRange
mod LastEntries
mod PutFaults
