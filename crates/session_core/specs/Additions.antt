-- What one more item brings.
use Rattle.std.specs.Prelude.{◌≡◌, ℕ, List, [], None, Some}
use Rattle.std.specs.Ordering.{nat_cmp}
use Rattle.map_model.specs.Maps.{at, set}
use Rattle.merge_model.specs.Publishing.{Call, apply, drop_sub}
use Rattle.value_model.specs.Val.{Entries}
use Rattle.ejson_value.specs.declared.key.Key.{Key}
use Rattle.ejson_value.specs.Changes.{news_of}
use Rattle.ddp_messages.specs.Texts.{server_text}
use Rattle.session_model.specs.Out.{updated}
use Rattle.session_journal_laws.specs.Fired.{Armed}
use Rattle.session_state.specs.declared.own.Step.{Step}
use Rattle.session_state.specs.declared.own.Step.TheVariants as step
use Rattle.session_core.specs.declared.adding.News.{News}
use Rattle.session_core.specs.declared.adding.News.TheVariants as news

-- the call of the merge that hands this in
abbrev pub call_by : News → Call Key Entries
call_by news.Nothing = apply 0 []
call_by (news.Of s changes) = apply s (news_of changes.now)
call_by (news.Gone s) = drop_sub s

-- a call that ends arms its fence
abbrev pub armed_by : Step → Armed → Armed
armed_by (step.Finish k place) armed = set nat_cmp armed k (Some place)
armed_by s armed = armed

-- its fence isn't armed yet
abbrev pub CanArm : Step → Armed → Type 0
CanArm (step.Finish k place) armed = at nat_cmp armed k ≡ None
CanArm s armed = Unit {0}

abbrev pub updated_text : List ℕ → List ℕ
updated_text id = server_text (updated id)
