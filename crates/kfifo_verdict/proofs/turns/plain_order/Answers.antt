use Rattle.std.proofs.Common.{ℕ, List, length, sym, subst}
use Rattle.std.proofs.lemmas.Result.{IfOk-weaker}
use Rattle.kfifo_verdict.proofs.Types.{Presence, Turn}
use Rattle.kfifo_verdict.specs.Finding.{ArePresences}
use Rattle.kfifo_verdict.specs.Plain.{IsLine, AreTurns}
use Rattle.kfifo_verdict.proofs.Lining.{places_moved}
use Rattle.kfifo_verdict.proofs.Turning.{legal_by_turns}
use Rattle.kfifo_verdict.proofs.Scenes.{IsScene}
use Rattle.kfifo_verdict.proofs.turns.plain_order.Goals as goal

pub with_items-turns-requires-clause-line : goal.with_items-turns-requires-clause-line
with_items-turns-requires-clause-line c =
    let h = c.args.calls.now in
    let ps = c.as_slice-presences.result.now in
    let L : List (ℕ × ℕ × ℕ) → Type 0 = λ w. IsLine h ps w in
    let sorted : IsLine h ps c.sort_nearly.new.triples.items = record {
      places = places_moved h ps (length h) c.in_ok-places.places.items c.sort_nearly.new.triples.items
          c.sort_nearly.ensures.permutation c.in_ok-places.ensures;
      sorted = c.sort_nearly.ensures.sorted;
    } in
    subst L (sym c.as_slice-line.ensures.value) sorted

pub returns : goal.returns
returns c =
    let h = c.args.calls.now in
    let ps = c.as_slice-presences.result.now in
    let line = c.as_slice-line.result.now in
    let ts = c.as_slice.result.now in
    let P : List Presence → Type 0 = λ w. ArePresences h (length h) w in
    let L : List (ℕ × ℕ × ℕ) → Type 0 = λ w. IsLine h ps w in
    let T : List Turn → Type 0 = λ w. AreTurns h ps line (length line) w in
    let scene : IsScene h ps = record {
      history = c.requires.history;
      plain = c.requires.plain;
      are = subst P (sym c.as_slice-presences.ensures.value) c.requires.items.presences;
      clear = c.requires.clear;
    } in
    let sorted : IsLine h ps c.sort_nearly.new.triples.items = record {
      places = places_moved h ps (length h) c.in_ok-places.places.items c.sort_nearly.new.triples.items
          c.sort_nearly.ensures.permutation c.in_ok-places.ensures;
      sorted = c.sort_nearly.ensures.sorted;
    } in
    let is_line = subst L (sym c.as_slice-line.ensures.value) sorted in
    let turns = subst T (sym c.as_slice.ensures.value) c.with_items-turns.ensures in
    IfOk-weaker c.by_turns.result _ _ (λ order b. legal_by_turns h ps line ts scene is_line turns order.items b)
    c.by_turns.ensures
