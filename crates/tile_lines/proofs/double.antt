pub mod PairFolding
