-- The machine's geometry (document 01, "Machine and numbers"). Each number stands here once, and once in `Geometry`'s constants, which `numbers` ties to these.
use Rattle.std.specs.Prelude.{ℕ, ◌+◌, ◌*◌, ◌/◌, ◌%◌, Bool, ◌&&◌, leb, ltb}
use Rattle.geometry.specs.declared.Span.{Span}

-- "A page is 4,096 bytes."
abbrev pub page_size : ℕ
page_size = 4096

-- "P pages, 2 to 1,024"
abbrev pub least_pages : ℕ
least_pages = 2

abbrev pub most_pages : ℕ
most_pages = 1024

-- "eight codeblock slots, and eight µPCRs a slot" "of 20 bytes"
abbrev pub slot_count : ℕ
slot_count = 8

abbrev pub pcr_count : ℕ
pcr_count = 8

abbrev pub digest_size : ℕ
digest_size = 20

-- "at most 64 pages in all"
abbrev pub most_held : ℕ
most_held = 64

-- "each at most 2,048": input and output share the param page, and the output begins there
abbrev pub half_page : ℕ
half_page = 2048

-- "Addresses are byte offsets"
abbrev pub page_of : ℕ → ℕ
page_of a = a / page_size

abbrev pub start_of : ℕ → ℕ
start_of p = p * page_size

-- the bytes of page p
abbrev pub bytes_of : ℕ → Span
bytes_of p = record { start = start_of p; end = start_of p + page_size }

-- "A range is an address and a length of 1 to 4,096, all in one page and in memory", here of p pages
unfoldable pub is_range : ℕ → ℕ → ℕ → Bool
is_range p a n = leb 1 n && (leb n page_size && (leb (a % page_size + n) page_size && ltb (page_of a) p))
