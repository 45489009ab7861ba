use mathlib.Core.Path.{ap, sym}
use borrow.Author.Rules.{rules}
use Rattle.look_over.specs.Inside.{is_sound}
use Rattle.look_over.proofs.is_sound.Statement.{statement}
use Rattle.look_over.proofs.is_sound.Tie as tie

returns : tie.Need-returns-in-Sound
unfolding is_sound
returns c = ap is_sound (sym c.in-Sound.is)

returns-2 : tie.Need-returns-in-BlockedRapid
unfolding is_sound
returns-2 c = ap is_sound (sym c.in-BlockedRapid.is)

returns-3 : tie.Need-returns-in-ChangedZ
unfolding is_sound
returns-3 c = ap is_sound (sym c.in-ChangedZ.is)

returns-4 : tie.Need-returns-in-TooDeep
unfolding is_sound
returns-4 c = ap is_sound (sym c.in-TooDeep.is)

pub is_sound_spec : {M : Type 1} → statement M
is_sound_spec = tie.close (tie.spec (λ c. search rules) (λ c. search rules) (λ c. search rules) (λ c. search rules) returns returns-2 returns-3 returns-4)
