-- A tool of no section and one of more than 32 are refused alike, so the questions see no difference between a list and what is copied of it.
use mathlib.Core.Bool.{Bool, true, false, ◌&&◌}
use mathlib.Core.List.{List, [], ◌∷◌}
use mathlib.Core.Logic.{◌⊎◌, inl, inr, ⊎_elim}
use mathlib.Core.Path.{◌≡◌, refl, ap, sym, ◌∙◌}
use Prim.Native.Nat.{ℕ, ◌*◌, ◌/◌, ◌%◌, ◌<◌}
use native.Mathlib.Omega.{arith}
use borrow.Author.Tests.{leb-false, lt-leb}
use lib.Dec.{eqb, leb}
use lib.Ieee.{Float}
use Rattle.plane.specs.declared.Best.{Best}
use lib.ListN.{length, take}
use lib.Seq.{take-length}
use Rattle.rules.proofs.Branches.{left}
use Rattle.grid.specs.Boxes.{is_boxed}
use Rattle.grid.specs.Index.{Index}
use Rattle.rules.specs.Ladder.{demand}
use Rattle.rules.specs.Every.{is_from, every}
use Rattle.query.specs.declared.Patch.{Patch}
use Rattle.query.specs.Asked.{is_marked}
use Rattle.query.specs.Usable.{usable}
use Rattle.reach.specs.declared.Chord.{Chord}
use Rattle.section.specs.declared.Section.{Section}
use Rattle.section.specs.Section.{valid_section}
use Rattle.ask.specs.Ask.{refusal_of, answer_of, asked_height, ruling_of, asked_chord}
use Rattle.tool.specs.Tool.{section_of, is_tool}
use Rattle.tips.specs.Contact.{max_sections_of}
use Rattle.chords.specs.Chords.{sections_chord_of}
use Rattle.flatten.specs.Flat.{flat_of, copied_of}

flat_length : (ss : List Section) → length (flat_of ss) ≡ length ss * 4
unfolding flat_of
flat_length [] = refl
flat_length (s ∷ ss) = let e = flat_length ss in omega arith

-- more than 32 sections, and none, are no tool
out_of_range : (a b c : Bool) → b ≡ false → (a && (b && c)) ≡ false
out_of_range true b c e = rw e
out_of_range false b c e = refl

last_out : (a b : Bool) → b ≡ false → (a && b) ≡ false
last_out true b e = e
last_out false b e = refl

beyond : (n : ℕ) → 32 < n → is_from 1 32 n ≡ false
unfolding is_from
beyond n h = last_out (leb 1 n) (leb n 32) (lt-leb n 32 h)

too_many : (ss : List Section) → 32 < length ss → is_tool (flat_of ss) ≡ false
unfolding is_tool
too_many ss h =
    let n : length (flat_of ss) / 4 ≡ length ss = omega (arith, flat_length ss) in
    out_of_range (eqb (length (flat_of ss) % 4) 0) _ (every (λ (i : ℕ). valid_section (section_of (flat_of ss) i)) 0 (length (flat_of ss) / 4))
    (ap (is_from 1 32) n ∙ beyond (length ss) h)

none : is_tool [] ≡ false
unfolding is_tool is_from
none = refl

-- a question of no tool is refused, whatever its cells are
no_rung : (mesh boxes numbers index : Bool) → eqb (demand mesh 1 (demand boxes 23 (demand numbers 2 (demand false 8 (demand index 7 0))))) 0 ≡ false
unfolding demand
no_rung true true true index = refl
no_rung true true false index = refl
no_rung true false numbers index = refl
no_rung false boxes numbers index = refl

module _ (ix : Index) (marks : List ℕ) (stamp : ℕ) (numbers : Bool) (p q : Patch) where
  refused : eqb (refusal_of numbers false ix marks stamp p) 0 ≡ false
  unfolding refusal_of
  refused = no_rung (is_marked ix.mesh marks) (is_boxed ix.mesh ix.boxes) numbers (usable ix marks stamp p)

  heights_alike : (f g : Best → ℕ → Best) → asked_height numbers false f ix marks stamp p ≡ asked_height numbers false g ix marks stamp q
  unfolding asked_height answer_of refusal_of demand
  heights_alike f g = sym (left _ _ _ _ refused refl) ∙ left _ _ _ _ refused refl

  chords_alike : (early : Bool) (f g : ℕ → Bool) → asked_chord numbers false early f ix marks stamp p ≡ asked_chord numbers false early g ix marks stamp q
  unfolding asked_chord ruling_of refusal_of demand
  chords_alike early f g = sym (left _ _ _ _ refused refl) ∙ left _ _ _ _ refused refl

-- what is copied of a list is the list, or both are no tool
on_or_off : (b : Bool) → (b ≡ true) ⊎ (b ≡ false)
on_or_off true = inl refl
on_or_off false = inr refl

copied_alike : {A : Type 0} (f : List Float → A) → ((s t : List Float) → is_tool s ≡ false → is_tool t ≡ false → f s ≡ f t) → (ss : List Section)
    → f (flat_of (take (copied_of (length ss)) ss)) ≡ f (flat_of ss)
unfolding copied_of flat_of
copied_alike f same ss =
    ⊎_elim
    (λ (e : leb (length ss) 32 ≡ true). rw (e, take-length ss))
    (λ (e : leb (length ss) 32 ≡ false). rw e (same _ _ none (too_many ss (leb-false (length ss) 32 e))))
    (on_or_off (leb (length ss) 32))

module _ (ix : Index) (marks : List ℕ) (stamp : ℕ) (ss : List Section) where
  pub max_copied : (x y : Float) → max_sections_of ix marks stamp x y (flat_of (take (copied_of (length ss)) ss)) ≡ max_sections_of ix marks stamp x y (flat_of ss)
  max_copied x y = copied_alike (max_sections_of ix marks stamp x y) (λ s t e f. unfold max_sections_of in rw (e, f) (heights_alike ix marks stamp _ _ _ _ _)) ss

  pub chord_copied : (m : Chord) → sections_chord_of ix marks stamp m (flat_of (take (copied_of (length ss)) ss)) ≡ sections_chord_of ix marks stamp m (flat_of ss)
  chord_copied m = copied_alike (sections_chord_of ix marks stamp m) (λ s t e f. unfold sections_chord_of in rw (e, f) (chords_alike ix marks stamp _ _ _ _ _ _)) ss
