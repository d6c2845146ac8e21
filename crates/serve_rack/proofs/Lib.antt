mod LinesServed
mod RacksServed
