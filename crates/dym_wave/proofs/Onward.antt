-- Viewers, each of which goes on or stays.
use Rattle.std.proofs.Common.{ℕ, ◌<◌, List, [], ◌++◌, length, set, get_or, refl, sym, ap, ◌∙◌, arith, append_assoc, append-nil}
use Rattle.dym_pool.proofs.Zips.{zip-at, zip-length, zip-refl, zip-set, zip-trans}
use Rattle.dym_view.specs.Histories.{Beginning}
use Rattle.dym_wave.specs.Observations.{LooksOn, LookedOn}

looks_still : (v : Beginning) → LooksOn v v
looks_still v = record { name = refl; known = ([], append-nil v.commits) }

looks_more : (u v w : Beginning) → LooksOn u v → LooksOn v w → LooksOn u w
looks_more u v w p q = record {
  name = q.name ∙ p.name;
  known = (p.known.0 ++ q.known.0, sym (append_assoc u.commits p.known.0 q.known.0) ∙ ap (λ l. l ++ q.known.0) p.known.1 ∙ q.known.1);
}

pub looked_still : (vs : List Beginning) → LookedOn vs vs
looked_still = zip-refl LooksOn looks_still

pub looked_more : (us vs ws : List Beginning) → LookedOn us vs → LookedOn vs ws → LookedOn us ws
looked_more us vs ws = zip-trans LooksOn LooksOn LooksOn us vs ws looks_more

-- one of the viewers looks
pub looked_at : (us vs : List Beginning) (k : ℕ) (d new : Beginning) → LookedOn us vs → k < length vs → LooksOn (get_or vs k d) new → LookedOn us (set vs k new)
looked_at us vs k d new looked less on =
    zip-set LooksOn us vs k new d looked
    (looks_more (get_or us k d) (get_or vs k d) new (zip-at LooksOn us vs k d d looked (omega (arith, less, zip-length LooksOn us vs looked))) on)
