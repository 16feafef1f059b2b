-- Values that a call takes one by one, put together.
--
--   field_made     a field of TDM control
--   tdms_made      the six numbers of its structure
use Rattle.std.specs.Prelude.{ℕ}
use Rattle.field.specs.declared.Field.{Field}
use Rattle.field.specs.declared.Tdms.{Tdms}

unfoldable pub field_made : ℕ → ℕ → ℕ → ℕ → ℕ → Field
field_made count flag id tdms links = record { count = count; flag = flag; id = id; tdms = tdms; links = links }

unfoldable pub tdms_made : ℕ → ℕ → ℕ → ℕ → ℕ → ℕ → Tdms
tdms_made fln1 lln1 fln2 lln2 fcp lcp =
    record { fln1 = fln1; lln1 = lln1; fln2 = fln2; lln2 = lln2; fcp = fcp; lcp = lcp }
