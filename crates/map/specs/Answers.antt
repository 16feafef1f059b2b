-- What the calls that only read the map give back, in the numbers that C is handed; and how the code's answers are told as these.
--
--   Shown          what is known of a component: 0 with the place and length of its fields, or a refusal's number; 1 where a change is
--                  announced, and in how many frames behind the last one it comes; 1 where not enough was heard to hold that there is none
--   Gathered       what was heard of it: its fields so far, and 1 where they are known to be all
--   Reach          frames in a row, 1 where every frame of the running configuration was heard, and how many components are in force
--   told_shown, told_heard, told_known    an answer of the code as these; every number is 0 beside a refusal's
--   as_heard, as_known    what the map says before its marks are taken for 0 or 1
--   mark_number    a mark of the list
use Rattle.std.specs.Prelude.{cond, ℕ, Result, Ok, Err, is_some, unwrap_or}
use Rattle.faults.specs.Refusals.{number_of}
use Rattle.faults.specs.declared.refusal.Refusal.{Refusal}
use Rattle.map.specs.declared.Span.{Span}
use Rattle.map.specs.declared.Shown.{Shown as ShownBy}
use Rattle.map.specs.declared.Gathered.{Gathered as GatheredBy}
use Rattle.map.specs.declared.Reach.{Reach as ReachBy}
use Rattle.map.specs.declared.look.Heard.{Heard}
use Rattle.map.specs.declared.look.Known.{Known}
use Rattle.map.specs.declared.look.Mark.{Mark}
use Rattle.map.specs.declared.look.Mark.TheVariants.{Absent, Whole, Unfinished, Unknown}

pub record Shown : Type 0 where
  pub number : ℕ
  pub at : ℕ
  pub len : ℕ
  pub announced : ℕ
  pub frames : ℕ
  pub unknown : ℕ

pub record Gathered : Type 0 where
  pub number : ℕ
  pub at : ℕ
  pub len : ℕ
  pub whole : ℕ

pub record Reach : Type 0 where
  pub number : ℕ
  pub row : ℕ
  pub unbroken : ℕ
  pub components : ℕ

abbrev pub no_span : Span
no_span = record { at = 0; len = 0 }

-- a component that is unfinished has no fields to show, and what is announced of it stands beside its number all the same
abbrev pub told_shown : Result ShownBy Refusal → Shown
told_shown (Ok x) = record {
  number = cond (is_some x.fields) 0 46;
  at = (unwrap_or x.fields no_span).at;
  len = (unwrap_or x.fields no_span).len;
  announced = cond (is_some x.change) 1 0;
  frames = unwrap_or x.change 0;
  unknown = cond x.unknown 1 0;
}
told_shown (Err refusal) =
    record { number = number_of refusal; at = 0; len = 0; announced = 0; frames = 0; unknown = 0 }

abbrev pub told_heard : Result GatheredBy Refusal → Gathered
told_heard (Ok x) = record { number = 0; at = x.fields.at; len = x.fields.len; whole = cond x.whole 1 0 }
told_heard (Err refusal) = record { number = number_of refusal; at = 0; len = 0; whole = 0 }

abbrev pub told_known : Result ReachBy Refusal → Reach
told_known (Ok x) = record { number = 0; row = x.row; unbroken = cond x.unbroken 1 0; components = x.components }
told_known (Err refusal) = record { number = number_of refusal; row = 0; unbroken = 0; components = 0 }

abbrev pub as_heard : Heard → Gathered
as_heard x = record { number = 0; at = x.fields.at; len = x.fields.len; whole = x.whole }

abbrev pub as_known : Known → Reach
as_known x = record { number = 0; row = x.row; unbroken = x.unbroken; components = x.components }

-- "0 none, 1 whole, 2 unfinished, 3 not known yet"
abbrev pub mark_number : Mark → ℕ
mark_number Absent = 0
mark_number Whole = 1
mark_number Unfinished = 2
mark_number Unknown = 3
