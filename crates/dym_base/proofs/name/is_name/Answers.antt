use Rattle.std.proofs.Common.{rules, ◌≡◌, length, Bool, true, false, not, ◌&&◌, nat_le, codes, refl, sym, ap, ◌∙◌, arith, tests}
use Rattle.std.specs.List.{list_all}
use Rattle.std.specs.Str.{bytes_eq}
use Rattle.std.proofs.lemmas.Iterator.{YieldsList-from_slice}
use Rattle.std.proofs.lemmas.Iterator.Search.{all_from_yields_List}
use Rattle.std.proofs.lemmas.Bool.Decides.{nat_tests}
use Rattle.std.proofs.lemmas.Bool.{le-leb}
use Rattle.dym_base.specs.Names.{is_name_byte}
use Rattle.dym_base.proofs.name.is_name.Goals as goal

-- a test of four parts, where the first three hold
last_part : (a b c d : Bool) → a ≡ true → b ≡ true → c ≡ true → d ≡ (a && b && c && d)
last_part true true true d p q r = refl
last_part false b c d p q r = cc
last_part true false c d p q r = cc
last_part true true false d p q r = cc

pub returns : goal.returns
returns c =
    let xs = c.args.bytes.now in
    let all = all_from_yields_List is_name_byte _ _ c.all.result c.all.ensures.ran (YieldsList-from_slice xs cc) (λ x b q k. search (rules, tests)) in
    let different : c.ne.result ≡ not (bytes_eq xs (codes "object")) = c.ne.ensures ∙ ap (λ ys. not (bytes_eq xs ys)) c.as_slice.ensures in
    let each : list_all is_name_byte xs ≡ true = sym all ∙ c.if-not-all.false in
    different ∙ last_part (nat_le 1 (length xs)) (nat_le (length xs) 32) (list_all is_name_byte xs) _ (le-leb 1 _ (grind (arith, nat_tests, c.is_empty.ensures, c.if-is_empty.false))) (le-leb _ 32 (omega arith)) each
