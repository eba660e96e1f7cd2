use Rattle.std.proofs.Common.{map, sym, ap, ◌∙◌}
use Rattle.dym_wave.specs.Waves.{tables_of}
use Rattle.dym_wave.specs.Works.{origin_of}
use Rattle.dym_wave.proofs.Tables.{origins_back, same_tables, still_swept}
use Rattle.dym_wave.proofs.observed_run.run_in_place.Goals as goal

pub returns-in-Ok-clause-origins : goal.returns-in-Ok-clause-origins
returns-in-Ok-clause-origins g c =
    ap (λ v. map origin_of v.items) c.replace.ensures.after
    ∙ origins_back c.replace-taken.result.items c.in-Ok.back.items c.in-Ok.ensures.wave.back.0
    ∙ ap (λ v. map origin_of v.items) c.replace-taken.ensures.value

pub returns-in-Err-clause-origins : goal.returns-in-Err-clause-origins
returns-in-Err-clause-origins g c =
    ap (λ v. map origin_of v.items) c.replace-in-Err.ensures.after
    ∙ ap (map origin_of) c.in-Err.ensures.works
    ∙ ap (λ v. map origin_of v.items) c.replace-taken.ensures.value

pub returns-in-Err-clause-tables : goal.returns-in-Err-clause-tables
returns-in-Err-clause-tables g c =
    still_swept c.args.works.now.items c.replace-in-Err.new.dest.items c.args.sweepers.now.items
    (ap (λ v. map origin_of v.items) c.replace-in-Err.ensures.after ∙ ap (map origin_of) c.in-Err.ensures.works
    ∙ ap (λ v. map origin_of v.items) c.replace-taken.ensures.value) c.requires.ready.tables
    ∙ sym (ap (λ v. tables_of v.items) c.replace-swept.ensures.value)
    ∙ sym (same_tables c.replace-swept.result.items c.in-Err.swept.items c.in-Err.ensures.sweepers.same c.in-Err.ensures.sweepers.tables)
