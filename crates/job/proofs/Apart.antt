-- A part of an accepted job, or the job with more behind it, is never taken for a job.
use mathlib.Core.List.{List}
use mathlib.Core.Path.{◌≡◌, ap, sym, ◌∙◌}
use Prim.Native.Nat.{ℕ, ◌/◌}
use native.Mathlib.Omega.{arith}
use lib.Ieee.{Float}
use lib.ListN.{length}
use Rattle.fields.specs.Little.{value}
use Rattle.job.specs.Layout.{triangles, questions, numbers, wide}
use Rattle.job.specs.Reader.{refusal_of_numbers, refusal_of, Outcome, told_with, read_of, NeverTakenForAPart}
use Rattle.job.proofs.Heads.{head_apart}
use Rattle.job.proofs.Ladder.{sound, head_of}
use Rattle.job.proofs.Reading.{refusal_is, refused_is}

module _ (bytes : List ℕ) (mesh qs : List Float) where
  told-19 : (xs : List ℕ) → (read_of xs mesh qs).answer.refusal ≡ 19 → (read_of xs mesh qs).answer.n ≡ told_with 19 xs
  told-19 xs e =
      let r : 19 ≡ refusal_of xs (length mesh / 9) (length qs / 5) = sym e ∙ refusal_is xs mesh qs in
      sym (ap (λ (o : Outcome). o.answer.n) (refused_is xs mesh qs 19 r (λ (z : ◌≡◌ {A = ℕ} 19 0). omega arith)))

  pub never_a_part : (o : Outcome) → o ≡ read_of bytes mesh qs → o.answer.refusal ≡ 0 → NeverTakenForAPart bytes mesh qs
  unfolding refusal_of
  never_a_part o p z =
      let nroom = length mesh / 9 in
      let mroom = length qs / 5 in
      let s = sound bytes nroom mroom (sym (refusal_is bytes mesh qs) ∙ sym (ap (λ (a : Outcome). a.answer.refusal) p) ∙ z) in
      head_apart wide 1 nroom mroom (λ xs. refusal_of_numbers xs (numbers (value triangles xs) (value questions xs))) bytes _ _
      (λ xs. refusal_is xs mesh qs) told-19 (omega arith) (head_of bytes nroom mroom s)
