-- The measure is k, the most digits that may still come. The higher digits are written by the call of itself, and then the last.
use Prim.Native.Nat.{ℕ, ◌<◌}
use borrow.Fn.Kinds.{In}
use borrow.Fn.PlainCycle.{Measures, is, falls, and}
use borrow.Author.Rules.{rules}
use native.Mathlib.Nat.{pos_of_ne-zero, mod-lt, lt_of_lt_of_le}
use native.Mathlib.Omega.{arith}
use Rattle.lines.proofs.Texts.{spells_none, spells_done, spells_more, reach}
use Rattle.lines.proofs.spell.Reads as spell
use Rattle.lines.proofs.spell.Kinds as spell-kinds
use Rattle.lines.proofs.+spell.Lts-spell as spell-lts
use Rattle.lines.proofs.glyph.Reads as glyph-reads
use Rattle.lines.proofs.is_done.Reads as is-done-reads
use Rattle.lines.proofs.one_less.Reads as one-less-reads
use Rattle.lines.proofs.put.Reads as put_reads
use Rattle.lines.proofs.+spell.{statement}
use Rattle.lines.proofs.+spell.Tie.{close}

abbrev μ-spell : Measures 1 spell-kinds.ps ℕ
μ-spell κs a = a.1.1.1.1.1.0

-- what `spell` is given at the measure t, and what a call of it asks below t
abbrev spell_at : ℕ → In 1 spell-kinds.ps
spell_at t = and 1 spell-kinds.ps (is 1 spell-kinds.ps μ-spell t) spell.Pre

abbrev spell_below : ℕ → In 1 spell-kinds.ps
spell_below t = and 1 spell-kinds.ps (falls 1 spell-kinds.ps ◌<◌ μ-spell t) spell.Pre

spell_returns : (t : ℕ) → spell-lts.Need-returns-then-k-eq0 (
  is-done-reads.Asked,
  is-done-reads.Learnt,
  one-less-reads.Asked,
  one-less-reads.Learnt,
  spell_below t,
  spell.Post,
  glyph-reads.Asked,
  glyph-reads.Learnt,
  put_reads.Asked,
  put_reads.Learnt,
) (spell_at t) spell.Post
spell_returns t c = spells_none _ _ _ _ _ _ c.if-k-eq0.true

spell-returns-2 : (t : ℕ) → spell-lts.Need-returns-then-is_done (
  is-done-reads.Asked,
  is-done-reads.Learnt,
  one-less-reads.Asked,
  one-less-reads.Learnt,
  spell_below t,
  spell.Post,
  glyph-reads.Asked,
  glyph-reads.Learnt,
  put_reads.Asked,
  put_reads.Learnt,
) (spell_at t) spell.Post
spell-returns-2 t c = spells_done _ _ _ _ _ _ _ c.before.is_done.ensures c.if-is_done.true

spell_sub_spell : (t : ℕ) → spell-lts.Need-overflow_sub-k (
  is-done-reads.Asked,
  is-done-reads.Learnt,
  one-less-reads.Asked,
  one-less-reads.Learnt,
  spell_below t,
  spell.Post,
  glyph-reads.Asked,
  glyph-reads.Learnt,
  put_reads.Asked,
  put_reads.Learnt,
) (spell_at t) spell.Post
spell_sub_spell t c = pos_of_ne-zero c.before.before.before.before.if-k-eq0.false

spell_spell_requires : (t : ℕ) → spell-lts.Need-spell-p-requires (
  is-done-reads.Asked,
  is-done-reads.Learnt,
  one-less-reads.Asked,
  one-less-reads.Learnt,
  spell_below t,
  spell.Post,
  glyph-reads.Asked,
  glyph-reads.Learnt,
  put_reads.Asked,
  put_reads.Learnt,
) (spell_at t) spell.Post
spell_spell_requires t c κs =
    let s = c.before.before.before.before.before.before in
    let h = pos_of_ne-zero c.before.before.before.before.if-k-eq0.false in
    (omega (arith, h, s.requires.0), (omega (arith, h, s.requires.1.0), s.requires.1.1, s.requires.1.2))

spell_glyph_requires : (t : ℕ) → spell-lts.Need-glyph-requires (
  is-done-reads.Asked,
  is-done-reads.Learnt,
  one-less-reads.Asked,
  one-less-reads.Learnt,
  spell_below t,
  spell.Post,
  glyph-reads.Asked,
  glyph-reads.Learnt,
  put_reads.Asked,
  put_reads.Learnt,
) (spell_at t) spell.Post
spell_glyph_requires t c κs =
    let s = c.before.before.before.before.before.before.before.before.before.before in
    lt_of_lt_of_le (mod-lt s.args.n s.requires.1.1) s.requires.1.2

spell_put_requires : (t : ℕ) → spell-lts.Need-put-requires (
  is-done-reads.Asked,
  is-done-reads.Learnt,
  one-less-reads.Asked,
  one-less-reads.Learnt,
  spell_below t,
  spell.Post,
  glyph-reads.Asked,
  glyph-reads.Learnt,
  put_reads.Asked,
  put_reads.Learnt,
) (spell_at t) spell.Post
spell_put_requires t c κs =
    let d = c.before.before.before.before in
    let s = d.before.before.before.before.before.before.before in
    omega (arith, reach _ _ _ _ d.spell-p.ensures, d.spell-p.auto.out, pos_of_ne-zero d.before.before.before.before.before.if-k-eq0.false, s.requires.1.0)

spell_same_length : (t : ℕ) → spell-lts.Need-shape_of-out (
  is-done-reads.Asked,
  is-done-reads.Learnt,
  one-less-reads.Asked,
  one-less-reads.Learnt,
  spell_below t,
  spell.Post,
  glyph-reads.Asked,
  glyph-reads.Learnt,
  put_reads.Asked,
  put_reads.Learnt,
) (spell_at t) spell.Post
spell_same_length t c = search rules

spell-returns-3 : (t : ℕ) → spell-lts.Need-returns (
  is-done-reads.Asked,
  is-done-reads.Learnt,
  one-less-reads.Asked,
  one-less-reads.Learnt,
  spell_below t,
  spell.Post,
  glyph-reads.Asked,
  glyph-reads.Learnt,
  put_reads.Asked,
  put_reads.Learnt,
) (spell_at t) spell.Post
spell-returns-3 t c =
    let d = c.before.before in
    let e = d.before.before.before.before.before in
    spells_more _ _ _ _ _ _ _ _ _ _ _ _ _ e.before.before.before.before.before.if-k-eq0.false e.before.before.before.before.is_done.ensures
    e.before.before.before.if-is_done.false e.before.one_less.ensures e.spell-p.ensures d.before.glyph.ensures d.put.ensures

pub +spell_spec : {M : Type 1} → statement M
+spell_spec =
    close μ-spell
    (λ t. spell-lts.spec (
      is-done-reads.Asked,
      is-done-reads.Learnt,
      one-less-reads.Asked,
      one-less-reads.Learnt,
      spell_below t,
      spell.Post,
      glyph-reads.Asked,
      glyph-reads.Learnt,
      put_reads.Asked,
      put_reads.Learnt,
    ) (spell_at t) spell.Post (spell_returns t) (λ c κs. tt) (spell-returns-2 t)
    (λ c. search rules) (λ c κs. tt) (spell_sub_spell t) (spell_spell_requires t) (λ c. search rules) (spell_glyph_requires t) (spell_put_requires t)
    (spell_same_length t) (spell-returns-3 t))
