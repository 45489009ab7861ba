-- Document 02, request 8: a tool's sections straight from its sheet, in the order of the Rust's `sections_of`, as a flat table
-- that the section questions accept.
use Rattle.std.specs.Prelude.{Bool, true, false, cond, ◌&&◌, List, [], ◌∷◌, ◌++◌, ℕ, zero, suc, ◌+◌, ◌*◌, ◌/◌, ◌%◌, eqb, leb, Float, length, take, drop, Option, None, Some, Result, Ok, Err}
use Rattle.std.specs.Float.Ieee.{lt}
use Rattle.numbers.specs.Reals.{◌⊕◌, ◌⊖◌, ◌⊘◌, num, f0, f2}
use Rattle.fields.specs.Rows.{all_finite}
use Rattle.section.specs.declared.Section.{Section}
use Rattle.section.specs.Section.{valid_section}
use Rattle.flatten.specs.Flat.{flat_of}
use Rattle.rules.specs.Ladder.{refuse, demand}
use Rattle.sheet.specs.declared.Shape.{Shape}
use Rattle.sheet.specs.declared.Shape.TheVariants.{Flat, Ball, Bull, Drill, Chamfer, Beam}
use Rattle.sheet.specs.declared.Sheet.{Sheet}
use Rattle.sheet.specs.declared.Body.{Body}
use Rattle.refusals.specs.declared.Refusal.{Refusal}
use Rattle.refusals.specs.Numbers.{number_of}

-- The shapes' numbers, in this order.
unfoldable pub shape_number : Shape → ℕ
shape_number Flat = 0
shape_number Ball = 1
shape_number Bull = 2
shape_number Drill = 3
shape_number Chamfer = 4
shape_number Beam = 5

-- The shape of a number. One above 5 is none, and is refused as the beam is.
unfoldable pub shape_from : ℕ → Shape
shape_from n =
    cond (eqb n 0) Flat
    (cond (eqb n 1) Ball
    (cond (eqb n 2) Bull
    (cond (eqb n 3) Drill
    (cond (eqb n 4) Chamfer
    Beam))))

-- ---- the list

-- A cylinder: level at z0, with nothing beyond r.
abbrev pub cylinder_of : Float → Float → Section
cylinder_of z0 r = record { z0 = z0; r0 = r; r1 = r; rise = f0 }

-- The cutter's radius.
abbrev pub radius_of : Sheet → Float
radius_of p = p.diameter ⊘ f2

-- A ball or bull end: the flat end of the same radius, which holds it, where that is asked for.
unfoldable pub enclosed_of : Bool → Sheet → Option Section
enclosed_of enclose p = cond enclose (Some (cylinder_of f0 (radius_of p))) None

-- A chamfer's end: its tip is level, then it rises to the tip height at the full radius.
unfoldable pub chamfer_of : Sheet → Section
chamfer_of p =
    let r = radius_of p in
    let r0 = p.tip_diameter ⊘ f2 in
    record { z0 = f0; r0 = r0; r1 = r; rise = p.tip_height ⊘ (r ⊖ r0) }

-- A drill's end rises from its point.
unfoldable pub drill_of : Sheet → Section
drill_of p = record { z0 = f0; r0 = f0; r1 = radius_of p; rise = p.tip_height ⊘ radius_of p }

-- The end's section: none of a beam, or of a curved end without the enclosure.
unfoldable pub end_of : Shape → Bool → Sheet → Option Section
end_of Flat enclose p = Some (cylinder_of f0 (radius_of p))
end_of Ball enclose p = enclosed_of enclose p
end_of Bull enclose p = enclosed_of enclose p
end_of Drill enclose p = Some (drill_of p)
end_of Chamfer enclose p = Some (chamfer_of p)
end_of Beam enclose p = None

-- A cylinder of the radius r at z0, where that lies below the stickout.
unfoldable pub below_of : Float → Float → Float → Option Section
below_of z0 r stickout = cond (lt z0 stickout) (Some (cylinder_of z0 r)) None

-- At the end of the neck, if there is one: cutting length + neck length.
unfoldable pub neck_of : Bool → Sheet → Option Section
neck_of neck p =
    cond neck (below_of (p.cutting_length ⊕ p.neck_length) p.above_neck p.stickout) None

-- What stands below the holders: the end, then the cylinders at the ends of the cutting length and of the neck.
unfoldable pub body_of : Shape → Bool → Bool → Sheet → Body
body_of shape enclose neck p =
    record {
      end = end_of shape enclose p;
      cut = below_of p.cutting_length p.above_cut p.stickout;
      neck = neck_of neck p;
    }

-- A holder from low z, high z, low radius and high radius: a cylinder at the low radius where the two don't widen.
unfoldable pub holder_of : Float → Float → Float → Float → Section
holder_of low high r0 r1 =
    cond (lt r0 r1) (record { z0 = low; r0 = r0; r1 = r1; rise = (high ⊖ low) ⊘ (r1 ⊖ r0) }) (cylinder_of low r0)

-- Holder i of a table of four numbers each.
unfoldable pub holder_at : List Float → ℕ → Section
holder_at hs i = holder_of (num hs (4 * i)) (num hs (4 * i + 1)) (num hs (4 * i + 2)) (num hs (4 * i + 3))

-- n holders from holder i on.
unfoldable pub holders_from : List Float → ℕ → ℕ → List Section
holders_from hs i zero = []
holders_from hs i (suc n) = holder_at hs i ∷ holders_from hs (i + 1) n

-- The section of a part, if there is one.
unfoldable pub listed : Option Section → List Section
listed None = []
listed (Some s) = s ∷ []

-- The list: the end, the cutting length, the neck, the holders.
unfoldable pub sections_of : Body → List Float → List Section
sections_of b hs = listed b.end ++ (listed b.cut ++ (listed b.neck ++ holders_from hs 0 (length hs / 4)))

-- ---- refusals

-- The numbers of a sheet.
abbrev pub numbers_of : Sheet → List Float
numbers_of p =
    p.diameter ∷ p.tip_diameter ∷ p.tip_height ∷ p.cutting_length ∷ p.stickout ∷ p.neck_length
    ∷ p.above_cut ∷ p.above_neck ∷ []

-- Each is valid and in document 01's ranges.
unfoldable pub all_valid : List Section → Bool
all_valid [] = true
all_valid (s ∷ ss) = valid_section s && all_valid ss

unfoldable pub is_absent : Option Section → Bool
is_absent None = true
is_absent (Some s) = false

-- 8: a section invalid or out of document 01's ranges, or more than 32. 25: the table shorter than four numbers a section.
unfoldable pub refusal_of_list : List Section → ℕ → ℕ
refusal_of_list ss room = demand (leb (length ss) 32) 8 (demand (all_valid ss) 8 (demand (leb (4 * length ss) room) 25 0))

-- 24: an end that no section covers, as a beam's, or a curved one without the enclosure.
unfoldable pub refusal_of_end : Body → List Float → ℕ → ℕ
refusal_of_end b hs room = refuse (is_absent b.end) 24 (refusal_of_list (sections_of b hs) room)

-- 1: holders not four numbers each. 2: a handed number not finite, used by the shape or not.
unfoldable pub refusal_of : Sheet → Body → List Float → ℕ → ℕ
refusal_of p b hs room =
    demand (eqb (length hs % 4) 0) 1 (demand (all_finite (numbers_of p)) 2 (demand (all_finite hs) 2 (refusal_of_end b hs room)))

-- ---- the answer

-- The refusal or 0, and how many sections there are: a refusal has a count of zero.
pub record Listed : Type 0 where
  pub refusal : ℕ
  pub count : ℕ

-- How an answer is told.
unfoldable pub told : Result ℕ Refusal → Listed
told (Ok n) = record { refusal = 0; count = n }
told (Err r) = record { refusal = number_of r; count = 0 }

-- The answer, and the lent table afterwards.
pub record Outcome : Type 0 where
  pub answer : Listed
  pub sections : List Float

abbrev pub ended : Listed → List Float → Outcome
ended a t = record { answer = a; sections = t }

-- A list of sections in a table, from section `at` on; the entries before it and behind it stay.
unfoldable pub placed : List Section → ℕ → List Float → List Float
placed ss at table = take (4 * at) table ++ flat_of ss ++ drop (4 * (at + length ss)) table

-- sections_of: a refusal leaves the table as it was and answers zero.
unfoldable pub sheet_of : Shape → Bool → Bool → Sheet → List Float → List Float → Outcome
sheet_of shape enclose neck p hs table =
    let b = body_of shape enclose neck p in
    let k = refusal_of p b hs (length table) in
    let ss = sections_of b hs in
    cond (eqb k 0)
    (ended (record { refusal = 0; count = length ss }) (placed ss 0 table))
    (ended (record { refusal = k; count = 0 }) table)
