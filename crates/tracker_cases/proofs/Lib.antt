pub mod NamesAreListed
