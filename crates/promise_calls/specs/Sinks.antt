-- Types that are sinks, as functions over any sink take them: the ghost items of a trait for such a type, and the dictionary that has the
-- trait's functions for it. Assumes nothing: these are definitions.
use contract.Running.{Running}
use denote.RattleType.{RattleType}
use mir.Syntax.{Dict, Dicts, dcons, dnil}
use prog.Model.{Model}
use prog.Routine.{Env}
use seplogic.Ra.Ura.{Ura}
use types.Logic.{Logic}
use Rattle.base_sink.specs.contracts.Sink.TheBound as sink
use Rattle.base_sink.specs.declared.Sink as declared_sink
use Rattle.percent_encode.specs.contracts.put.Coded.TheBound as coded
use Rattle.percent_encode.specs.declared.put.Coded as declared_coded

-- a sink
abbrev pub OfSink : RattleType → Type 1
OfSink S = declared_sink.Ghosts S.Denot × Dict

abbrev pub sink_dicts : (S : RattleType) → OfSink S → Dicts
sink_dicts S (g, d) = dcons d dnil

-- its functions meet what the trait promises
abbrev pub SinkMet : (M : Type 1) (𝓤 : Ura M) (𝓛 : Logic 𝓤) (𝓜 : Model 𝓤 𝓛.H) (𝓡 : Running 𝓤 𝓛.H 𝓜) → Env
    → (S : RattleType) → OfSink S → Type 2
SinkMet M 𝓤 𝓛 𝓜 𝓡 env S (g, d) = sink.Met 𝓛 𝓜 𝓡 env S g d

-- a sink that takes encoded texts
abbrev pub OfCoded : RattleType → Type 1
OfCoded S = declared_coded.Ghosts S.Denot × (Dict × OfSink S)

abbrev pub coded_dicts : (S : RattleType) → OfCoded S → Dicts
coded_dicts S (g, (d, (h, e))) = dcons d (dcons e dnil)

abbrev pub CodedMet : (M : Type 1) (𝓤 : Ura M) (𝓛 : Logic 𝓤) (𝓜 : Model 𝓤 𝓛.H) (𝓡 : Running 𝓤 𝓛.H 𝓜) → Env
    → (S : RattleType) → OfCoded S → Type 2
CodedMet M 𝓤 𝓛 𝓜 𝓡 env S (g, (d, (h, e))) = coded.Met 𝓛 𝓜 𝓡 env S g d h e × sink.Met 𝓛 𝓜 𝓡 env S h e
