mod NamesApart
mod PathGrown
