-- A text that is written in three pieces.
use Rattle.std.proofs.Common.{◌≡◌, ℕ, List, ◌++◌, flat_map, Result, refl, subst, sym}
use Rattle.dym_base.specs.Heaps.{Live}
use Rattle.dym_base.specs.declared.command.Version.{Version}
use Rattle.dym_base.specs.declared.reply.Reply.{Reply}
use Rattle.dym_io.specs.Sink.{Output, Appended, Stopped, Writes}
use Rattle.dym_io.specs.Laws.{appended_both, stopped_within, stopped_after, writes_after}
use Rattle.dym_report.specs.Objects.{heading, state_text, object_text}
use Rattle.dym_report.specs.Replies.{reply_line}

pub object_is : (v : Version) (name : List ℕ) (replies : List Reply) (live : Live) (kept slots : ℕ)
    → object_text v name replies live kept slots ≡ (heading name ++ flat_map reply_line replies) ++ state_text v live kept slots
unfolding object_text
object_is v name replies live kept slots = refl

-- where the sink failed in one of them, a front of the whole is written
pub cut_first : (a b : Output) (t u w : List ℕ) → Stopped a b t → Stopped a b ((t ++ u) ++ w)
cut_first a b t u w p = stopped_within a b (t ++ u) w (stopped_within a b t u p)

pub cut_second : (a b c : Output) (t u w : List ℕ) → Appended a b t → Stopped b c u → Stopped a c ((t ++ u) ++ w)
cut_second a b c t u w p q = stopped_within a c (t ++ u) w (stopped_after a b c t u p q)

-- the third ends it
pub third_ends : {T E : Type 0} → (a b c d : Output) (t u w : List ℕ) (r : Result T E) → Appended a b t → Appended b c u → Writes c d w r
    → Writes a d ((t ++ u) ++ w) r
third_ends a b c d t u w r p q last = writes_after a c d (t ++ u) w r (appended_both a b c t u p q) last

pub third_ends_as : {T E : Type 0} → (a b c d : Output) (text t u w : List ℕ) (r : Result T E) → text ≡ (t ++ u) ++ w → Appended a b t → Appended b c u
    → Writes c d w r → Writes a d text r
third_ends_as a b c d text t u w r e p q last =
    let Is : List ℕ → Type 0 = λ l. Writes a d l r in
    subst Is (sym e) (third_ends a b c d t u w r p q last)
