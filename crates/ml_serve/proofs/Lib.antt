mod Called
mod CommandLemmas
mod OneSession
mod SessionLemmas
mod VisitLemmas
