-- The kind of an image file, by its contents.
use Rattle.std.specs.Prelude.{ℕ, Bool, List, take, codes}
use Rattle.std.specs.Str.{bytes_eq}

-- a capture begins with these eight bytes; any other file is taken for blocks
unfoldable pub is_capture : List ℕ → Bool
is_capture f = bytes_eq (take 8 f) (codes "GCR-1541")
