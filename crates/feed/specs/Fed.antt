-- What `feed_received` gives back and leaves in what is lent to it.
--
--   values r p i b                  a number r with a place p, an index i and bytes b
--   refused protection room         20 and 23 in this order, otherwise 0
--   fed protection image before     the number and the three values after the call, by those before it
use Rattle.std.specs.Prelude.{not, List, [], ◌∷◌, ℕ, zero, suc, eqb, ltb, length}
use Rattle.bits.specs.Rows.{row, refusal}
use Rattle.packet.specs.Received.{received}
use Rattle.packet.specs.Received.{ReadingAnswer}

abbrev pub values : ℕ → ℕ → ℕ → List ℕ → ReadingAnswer
values r p i b = record { number = r; place = p; index = i; bytes = b }

-- 20: the room for the bytes is not 90 long; 23: protection neither 0, plain, nor 1, protected
unfoldable pub refused : ℕ → List ℕ → ℕ
refused protection room = refusal (row (not (eqb (length room) 90)) 20 ∷ row (ltb 1 protection) 23 ∷ [])

-- refused so, nothing lent is changed; otherwise the packet's reading is handed over, also where the packet is refused
unfoldable pub handed : ℕ → ReadingAnswer → ReadingAnswer → ReadingAnswer
handed zero reading before = reading
handed (suc number) reading before = values (suc number) before.place before.index before.bytes

unfoldable pub fed : ℕ → List ℕ → ReadingAnswer → ReadingAnswer
fed protection image before = handed (refused protection before.bytes) (received (eqb protection 1) image) before
