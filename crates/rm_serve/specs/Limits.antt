-- How many packets are posted in a row. It stands here and nowhere else, but in the code.
use Rattle.std.specs.Prelude.{ℕ}

-- the most packets of one row, those that the node hands out meanwhile among them
abbrev pub most_posts : ℕ
most_posts = 256
