mod RingLemmas
mod BestLemmas
mod ScanLemmas
mod RankLemmas
mod CountLemmas
mod AnchorLemmas
mod SortLemmas
mod LawLemmas
