pub mod PrefixList
