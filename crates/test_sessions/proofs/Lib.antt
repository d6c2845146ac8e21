mod ClockClients
