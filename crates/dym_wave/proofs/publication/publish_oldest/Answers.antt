use Rattle.std.proofs.Common.{◌≡◌, Some, rules}
use Rattle.dym_object.specs.Meaning.{state_of}
use Rattle.dym_wave.specs.Publications.{oldest_commit}
use Rattle.dym_wave.proofs.Sights.{published, shows}
use Rattle.dym_wave.proofs.publication.publish_oldest.Goals as goal

pub returns-in-Some-clause-more : goal.returns-in-Some-clause-more
returns-in-Some-clause-more g c =
    let at : oldest_commit (state_of c.args.turn.now.object) ≡ Some c.in-Some.commit = search rules in
    published c.publish.result c.args.publisher.now c.publish.new.self c.in-Some.commit _ c.publish.ensures.published c.publish.ensures.refused at

pub returns-in-Some-clause-shown : goal.returns-in-Some-clause-shown
returns-in-Some-clause-shown g c =
    let at : oldest_commit (state_of c.args.turn.now.object) ≡ Some c.in-Some.commit = search rules in
    shows c.publish.result c.args.publisher.now c.publish.new.self c.in-Some.commit _ c.publish.ensures.published at
