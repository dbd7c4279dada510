-- How much a multiplexer keeps: of how many publications, of how many entries, and of documents of how many bytes.
use Rattle.std.specs.Prelude.{ℕ, ◌≤◌, List, length, min, sum_by}
use Rattle.std.specs.List.{AllByRecursion}
use Rattle.ejson_value.specs.declared.change.Publish.{Publish}
use Rattle.collection_store.specs.Limits.{size_if}
use Rattle.multiplexer.specs.Telling.{AnEntry, ASource}

abbrev pub max_sources : ℕ
max_sources = 16

abbrev pub max_entries : ℕ
max_entries = 256

abbrev pub max_bytes : ℕ
max_bytes = 1048576

-- the bytes of the documents that are told
abbrev pub bytes_told : List Publish → ℕ
bytes_told told = sum_by (λ (p : Publish). size_if p.new) told

abbrev pub bytes_in : List AnEntry → ℕ
bytes_in ones = sum_by (λ (one : AnEntry). bytes_told one.told) ones

-- those that are counted of an entry: no more than would be too many anyway
abbrev pub counted_one : List Publish → ℕ
counted_one told = min (bytes_told told) 4294967296

abbrev pub counted_in : List AnEntry → ℕ
counted_in ones = sum_by (λ (one : AnEntry). counted_one one.told) ones

-- it keeps few entries, and their documents have few bytes
pub record IsSmall (s : ASource) : Type 0 where
  pub few : length s.ones ≤ max_entries
  pub light : bytes_in s.ones ≤ max_bytes

pub record AreBounded (sources : List ASource) : Type 0 where
  pub many : length sources ≤ max_sources
  pub each : AllByRecursion IsSmall sources

-- how many answers are kept, and the bytes of all their documents
abbrev pub kept_in : List ASource → ℕ
kept_in sources = sum_by (λ (s : ASource). length s.ones) sources

abbrev pub bytes_kept : List ASource → ℕ
bytes_kept sources = sum_by (λ (s : ASource). bytes_in s.ones) sources
