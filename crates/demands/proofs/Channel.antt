-- A worked channel: one history that uses each thing that demand 3 lets happen, as far as it lets it. Address 17 is followed with
-- protection and limit 2, before packet 2 of group 0. What it comes to is in `Worked`.
--
--   group 0     the follow is in mid-stream: packets 2 and 3 alone
--   group 1     three flips in a header, three in a word; a control packet, with three flips in its header and two in its type byte;
--               address 18 is followed, sent to with three flips in a header, and left; a subframe ends
--   group 2     packet 0; then three are lost in a row: one comes with its spare bit set, one without its last byte, and one with three
--               flips in its header while the setting is 2; then it is 3 again; control packets stand before, between and behind them
--   group 3     begun while group 2 is unfinished; four flips in a word
--   group 4     two flips in a type byte; a subframe ends, and ask is called
--   group 5     as it was sent
--
--   worked             the history; from-1 to from-5: from each group on
--   worked-channel     it meets the channel's words
--   three-lost         packet 0 of group 3 would be too late, were only two lost in a row
--
-- Assumes nothing.
use mathlib.Core.Bool.{true}
use mathlib.Core.List.{List, [], ◌∷◌}
use Prim.Native.Nat.{ℕ, ◌+◌, ◌*◌, ◌<◌}
use native.Mathlib.Omega.{arith}
use lib.Dec.{lit<, lit≤}
use Rattle.history.specs.Sent.{Next}
use Rattle.head.specs.Head.{wish_of}
use Rattle.demands.specs.Machine.{follow, leave, packet, subframe_end, set_flips, asks, ask}
use Rattle.demands.specs.Setting.{setting_now}
use Rattle.demands.specs.Demand3.{Happening, arrives, control, call, Apart, Comes, Channel}
use Rattle.demands.proofs.Damaged.{worked-sent, as-sent, hit, header-three, word-three, word-four, type-two, Receives, sent-receives, header-receives, word-three-receives, word-four-receives, type-receives, told, told-comes, other, other-apart, strict, strict_apart, spare-one, spare-apart, cut, cut_apart}

-- ---- the history, from each group on

unfoldable pub from-5 : List Happening
from-5 =
    arrives 5 0 (as-sent 5 0) ∷ arrives 5 1 (as-sent 5 1) ∷ arrives 5 2 (as-sent 5 2) ∷ arrives 5 3 (as-sent 5 3) ∷ []

unfoldable pub from-4 : List Happening
from-4 =
    arrives 4 0 (hit 4 0 type-two) ∷ arrives 4 1 (as-sent 4 1) ∷ arrives 4 2 (as-sent 4 2) ∷ arrives 4 3 (as-sent 4 3)
    ∷ call subframe_end ∷ call (asks (ask 17)) ∷ from-5

unfoldable pub from-3 : List Happening
from-3 =
    arrives 3 0 (as-sent 3 0) ∷ arrives 3 1 (hit 3 1 word-four) ∷ arrives 3 2 (as-sent 3 2) ∷ arrives 3 3 (as-sent 3 3) ∷ from-4

unfoldable pub from-2 : List Happening
from-2 =
    arrives 2 0 (as-sent 2 0) ∷ control told ∷ call (packet spare-one) ∷ control told ∷ call (packet cut)
    ∷ call (set_flips 2) ∷ call (packet strict) ∷ call (set_flips 3) ∷ control told ∷ from-3

unfoldable pub from-1 : List Happening
from-1 =
    arrives 1 0 (hit 1 0 header-three) ∷ arrives 1 1 (hit 1 1 word-three) ∷ control told
    ∷ call (follow (wish_of 18 1 2)) ∷ call (packet other) ∷ call (leave 18)
    ∷ arrives 1 2 (as-sent 1 2) ∷ call subframe_end ∷ arrives 1 3 (as-sent 1 3) ∷ from-2

unfoldable pub worked : List Happening
worked = arrives 0 2 (as-sent 0 2) ∷ arrives 0 3 (as-sent 0 3) ∷ from-1

-- ---- it meets the channel's words

-- packet c of group i follows the one before it, and its image is received with the number m
comes : (i c m : ℕ) {image : List ℕ} → c < 4 → Receives i c image m → Comes true 17 worked-sent 3 (4 * i + c) i c image
comes i c m h r =
    record { next = record { index = h; once = omega arith; lost = λ l. omega arith }; came = r.came; spare = r.spare }

-- the image is as it was sent
whole : (i c : ℕ) → c < 4 → Comes true 17 worked-sent 3 (4 * i + c) i c (as-sent i c)
whole i c h = comes i c 0 h (sent-receives i c h)

-- packet 9 is awaited, and packet 12 comes
late : Comes true 17 worked-sent 3 9 3 0 (as-sent 3 0)
late = record {
  next = record { index = lit< tt; once = lit≤ tt; lost = λ l. lit≤ tt };
  came = (sent-receives 3 0 (lit< tt)).came;
  spare = (sent-receives 3 0 (lit< tt)).spare;
}

-- so that exactly three were lost
pub three-lost : Next 4 2 9 3 0 → ⊥
three-lost q = omega (arith, q.lost (lit< tt))

meets-5 : Channel true 17 worked-sent 3 20 from-5
unfolding from-5 Channel
meets-5 = (whole 5 0 (lit< tt), (whole 5 1 (lit< tt), (whole 5 2 (lit< tt), (whole 5 3 (lit< tt), tt))))

meets-4 : Channel true 17 worked-sent 3 16 from-4
unfolding from-4 Channel Apart setting_now
meets-4 = (
  comes 4 0 0 (lit< tt) (type-receives 4 0 (lit< tt)),
  (whole 4 1 (lit< tt), (whole 4 2 (lit< tt), (whole 4 3 (lit< tt), (tt, (tt, meets-5))))),
)

meets-3 : Channel true 17 worked-sent 3 9 from-3
unfolding from-3 Channel
meets-3 = (
  late,
  (
    comes 3 1 31 (lit< tt) (word-four-receives 3 1 (lit< tt)),
    (whole 3 2 (lit< tt), (whole 3 3 (lit< tt), meets-4)),
  ),
)

meets-2 : Channel true 17 worked-sent 3 8 from-2
unfolding from-2 Channel Apart setting_now
meets-2 =
    (whole 2 0 (lit< tt), (told-comes, (spare-apart, (told-comes, (cut_apart, (tt, (strict_apart, (tt, (told-comes, meets-3)))))))))

meets-1 : Channel true 17 worked-sent 3 4 from-1
unfolding from-1 Channel Apart setting_now
meets-1 = (
  comes 1 0 0 (lit< tt) (header-receives 1 0 (lit< tt)),
  (
    comes 1 1 0 (lit< tt) (word-three-receives 1 1 (lit< tt)),
    (told-comes, (tt, (other-apart, (λ q. omega (arith, q), (whole 1 2 (lit< tt), (tt, (whole 1 3 (lit< tt), meets-2))))))),
  ),
)

pub worked-channel : Channel true 17 worked-sent 3 2 worked
unfolding worked Channel
worked-channel = (whole 0 2 (lit< tt), (whole 0 3 (lit< tt), meets-1))
