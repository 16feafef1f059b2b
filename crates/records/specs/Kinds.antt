-- The kinds of records and their bytes: "kind 1 packet, 2 subframe end, 3 follow, 4 leave, 5 ask".
--
--   kind_number kind       the byte that says it
--   HasNumber n answer     the answer is the kind with the byte n, or that no kind has it
use Rattle.std.specs.Prelude.{◌≡◌, ℕ, Result, Ok, Err}
use Rattle.records.specs.declared.kind.Kind.{Kind}
use Rattle.records.specs.declared.kind.Kind.TheVariants.{Packet, SubframeEnd, Follow, Leave, Ask}
use Rattle.records.specs.declared.kind.UnknownKind.{UnknownKind}

abbrev pub kind_number : Kind → ℕ
kind_number Packet = 1
kind_number SubframeEnd = 2
kind_number Follow = 3
kind_number Leave = 4
kind_number Ask = 5

abbrev pub HasNumber : ℕ → Result Kind UnknownKind → Type 0
HasNumber number (Ok kind) = number ≡ kind_number kind
HasNumber number (Err unknown) = (kind : Kind) → number ≡ kind_number kind → ⊥
