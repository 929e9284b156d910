-- The limits of a table file. Each is the product's own.
use Rattle.std.specs.Prelude.{ℕ}

-- how many customers there are at most
abbrev pub max_customers : ℕ
max_customers = 64

-- how many lines the hub has at most
abbrev pub max_lines : ℕ
max_lines = 256

-- how many routes a customer has at most
abbrev pub max_routes : ℕ
max_routes = 512

-- how many characters a line's name has at most
abbrev pub max_line_name : ℕ
max_line_name = 8

-- how many blocks the spool has at most: as many as the quotas of all customers can add to
abbrev pub max_capacity : ℕ
max_capacity = 4194240

-- how many blocks of the spool a customer may use at most
abbrev pub max_quota : ℕ
max_quota = 65535

-- how many files a customer may have at most
abbrev pub max_files : ℕ
max_files = 1024

-- the least size of a block's text, in bytes before doubling
abbrev pub min_block : ℕ
min_block = 300

-- the greatest size of a block's text, in bytes before doubling
abbrev pub max_block : ℕ
max_block = 4096

-- how many streams of a kind a line has at most
abbrev pub max_streams : ℕ
max_streams = 4

-- how many ranges of addresses a line's `from` has at most
abbrev pub max_ranges : ℕ
max_ranges = 16

-- the greatest number of a port
abbrev pub max_port : ℕ
max_port = 65535
