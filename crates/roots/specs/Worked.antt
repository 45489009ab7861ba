-- Document 01, "Proved examples", those that are about root and hypot. `fin s m e` is m * 2 ^ e, negative where s is true.
use Rattle.std.specs.Prelude.{◌≡◌, true, false, pos, negsuc}
use Rattle.std.specs.Float.{nan, inf, fin}
use Rattle.roots.specs.Root.{root_of}
use Rattle.roots.specs.Hypot.{hypot_of}

pub record Worked : Type 0 where
  -- 9 has the root 3, and 2 ^ -1074 the root 2 ^ -537
  pub nine : root_of (fin false 9 (pos 0)) ≡ fin false 3 (pos 0)
  pub smallest : root_of (fin false 1 (negsuc 1073)) ≡ fin false 1 (negsuc 536)
  pub largest : root_of (fin false 9007199254740991 (pos 971)) ≡ fin false 9007199254740991 (pos 459)
  pub minus_zero : root_of (fin true 0 (pos 0)) ≡ fin true 0 (pos 0)
  pub minus_four : root_of (fin true 1 (pos 2)) ≡ nan
  pub infinite : root_of (inf false) ≡ inf false
  -- hypot of 3 * 2 ^ -1074 and 4 * 2 ^ -1074 is 5 * 2 ^ -1074, and of 3 * 2 ^ 1000 and 4 * 2 ^ 1000 it is 5 * 2 ^ 1000
  pub low_hypot : hypot_of (fin false 3 (negsuc 1073)) (fin true 1 (negsuc 1071)) ≡ fin false 5 (negsuc 1073)
  pub high_hypot : hypot_of (fin false 3 (pos 1000)) (fin true 1 (pos 1002)) ≡ fin false 5 (pos 1000)
  -- the root lies midway between two f64s: the even one, which is 4 * 2251799813685249
  pub tie : hypot_of (fin false 5404319552844597 (pos 0)) (fin false 1801439850948199 (pos 2)) ≡ fin false 2251799813685249 (pos 2)
  -- it lies midway between the largest f64 and 2 ^ 1024: plus infinity, and one smallest step below the largest f64
  pub beyond : hypot_of (fin false 6081690782099583 (pos 970)) (fin false 1059797281045545 (pos 974)) ≡ inf false
  pub within : hypot_of (fin false 6081690782099581 (pos 970)) (fin false 1059797281045545 (pos 974)) ≡ fin false 9007199254740991 (pos 971)
  pub zeros : hypot_of (fin true 0 (pos 0)) (fin true 0 (pos 0)) ≡ fin false 0 (pos 0)
