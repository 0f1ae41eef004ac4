-- The words at the front of a list that pass a test: how many `take_while` and `count` find, and where they end.
-- Assumes nothing.
use mathlib.Core.Path.{◌≡◌, refl, ◌∙◌}
use mathlib.Core.Bool.{Bool, false}
use mathlib.Core.List.{List, [], ◌∷◌}
use Prim.Native.Nat.{ℕ, ◌+◌, ◌-◌, ◌≤◌}
use native.Mathlib.Omega.{arith}
use denote.Param.Members.{Mut}
use denote.Ref.{Bor}
use lib.ListN.{length, take, drop, length-drop}
use Rattle.std.specs.declared.iter.TakeWhile.{TakeWhile}
use Rattle.std.specs.Prelude.{Option}
use Rattle.std.specs.Fn.{CalledAt}
use Rattle.std.specs.Iterator.{Drains}
use Rattle.std.specs.Iterator.Adapters.{take_while_source, take_while_done, take_while_callee, take_while_steps}
use Rattle.std.specs.List.{prefix_len}
use Rattle.std.specs.Slice.Iter.{iter_rest}
use Rattle.std.proofs.iter.Yields.{fronts}
use Rattle.std.proofs.lemmas.Iterator.{YieldsList, YieldsList-from_slice}
use Rattle.std.proofs.lemmas.Iterator.Consumers.{count_from_yields_List}
use Rattle.std.proofs.lemmas.Iterator.Search.{YieldsList-from_take_while}
use Rattle.std.proofs.lemmas.List.{take_rest}
use Rattle.std.proofs.lemmas.List.Folds.{length-prefix_len}
use Rattle.std.proofs.lemmas.List.Sums.{prefix_len-le-length}
use Rattle.rules.specs.Reading.{take_while}
use Rattle.words.specs.Parts.{of_kinds, run_of}
use Rattle.words.proofs.Cases.{decide}

-- what `count` answers behind `take_while` on these elements, where the closure tells f
pub counted_of : {S A B F : Type 0} {steps : S → Option A → S → Type 0} {v : A → B} {g : Mut F (Bor A × Unit {0}) Bool} {p : F} (f : B → Bool) (ys : List B)
    (s : TakeWhile S F) (n : ℕ) → YieldsList steps v (take_while_source s) ys → take_while_callee s ≡ p → take_while_done s ≡ false
    → ((x : A) (b : Bool) (q : F) → CalledAt g p x b q → (q ≡ p) × (b ≡ f (v x)))
    → (xs : List A) × Drains (take_while_steps steps g) s xs × (n ≡ length xs) → n ≡ prefix_len f ys
counted_of f ys s n yields callee done tells ran =
    count_from_yields_List s n ran (YieldsList-from_take_while _ f yields callee done tells) ∙ length-prefix_len f ys

-- the same on the words from a position on
pub counted : {F : Type 0} {g : Mut F (Bor (Bor ℕ) × Unit {0}) Bool} {p : F} (f : ℕ → Bool) (ws : List ℕ) (from : ℕ) (s : _) (n : ℕ)
    → iter_rest (take_while_source s) ≡ take (length ws - from) (drop from ws) → take_while_callee s ≡ p → take_while_done s ≡ false
    → ((x : Bor ℕ) (b : Bool) (q : F) → CalledAt g p x b q → (q ≡ p) × (b ≡ f x.now))
    → (xs : List (Bor ℕ)) × Drains (take_while_steps fronts g) s xs × (n ≡ length xs) → n ≡ prefix_len f (drop from ws)
counted f ws from s n source callee done tells ran =
    counted_of f (drop from ws) s n (YieldsList-from_slice (drop from ws) (source ∙ take_rest ws from)) callee done tells ran

-- a run is as long as std counts
pub run_count : (f : ℕ → Bool) (ws : List ℕ) → length (take_while f ws) ≡ prefix_len f ws
unfolding take_while
run_count f [] = refl
run_count f (w ∷ ws) = decide (f w) (λ e. rw e (omega (arith, run_count f ws))) (λ e. rw e)

-- a run is no longer than the list
pub run_length : (f : ℕ → Bool) (ws : List ℕ) → length (take_while f ws) ≤ length ws
run_length f ws = omega (arith, run_count f ws, prefix_len-le-length f ws)

-- the end of a run lies in the list
pub run_within : (low high : ℕ) (ws : List ℕ) (from : ℕ) → from ≤ length ws → from + length (run_of low high (drop from ws)) ≤ length ws
run_within low high ws from h = omega (arith, run_length (of_kinds low high) (drop from ws), length-drop from ws)
